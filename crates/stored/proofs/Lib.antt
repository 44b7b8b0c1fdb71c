mod Cases
mod Flags
