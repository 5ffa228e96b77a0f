pub mod BoxLemmas
pub mod BuildRows
pub mod BuiltLemmas
pub mod ByIndex
pub mod GoodItems
pub mod Ingredients
pub mod Labels
pub mod Lists
pub mod Put
pub mod Spelled
pub mod StoreSize
pub mod StoreTests
pub mod Texts
pub mod StoreLaws
pub mod Unbound
pub mod WrittenItems
pub mod WrittenStore
pub mod Accepted
pub mod FirstRefused
pub mod Ones
pub mod Places
mod Rows
pub mod Stores
pub mod Taken
pub mod ParentLaws
pub mod Valid
pub mod Building
pub mod Items
pub mod Media
pub mod BmffRows
pub mod BmffLaws
mod FileOnes
mod Sizes
pub mod Somes
pub mod FileLaws
