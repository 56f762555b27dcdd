pub mod Frames
pub mod Envelopes
