-- The reading calls: their replies, what they leave in a lent buffer, how long the reports are, Payload and Progress.
pub mod Replies
pub mod Buffers
pub mod Lengths
pub mod LongestChangeInfo
pub mod Payload
pub mod Progress
