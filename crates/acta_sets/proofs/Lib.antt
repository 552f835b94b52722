mod Lists
mod Keys
pub mod Laws
mod Filed
mod Others
mod Listed
mod Searching
mod Access
mod Among
mod Unnamed
mod Grants
mod Permitting
mod PermitLists
mod Partners
pub mod Lineages
pub mod Chaining
mod Clearing
