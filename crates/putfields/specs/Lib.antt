-- Bytes put into a buffer one list after another, and the fields of leaves. Assumes nothing.
pub mod Put
pub mod Leaves
