-- The payloads of a network file's fields: which refusal each brings, the tags, and laws. Assumes nothing.
pub mod Tags
pub mod Payload
