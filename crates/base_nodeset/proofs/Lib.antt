pub mod Bits
pub mod Members
pub mod Words
pub mod Matrix
pub mod MemberEntries
