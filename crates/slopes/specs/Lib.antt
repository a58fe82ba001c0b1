-- The call's answer, and what contracts of inner functions cite.
pub mod Calls
pub mod Inner
