-- Lemmas on what a call changes in size.
pub mod Listed
pub mod OnTheWay
pub mod Nearness
pub mod Noting
pub mod FilePages
pub mod Joined
pub mod Balance
pub mod Ends
pub mod InPlace
pub mod Called
pub mod Told
