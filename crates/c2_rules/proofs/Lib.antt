pub mod Approving
pub mod AskingLemmas
pub mod BindingLaws
pub mod BindingLemmas
mod BmffRows
mod ChainRows
pub mod ClaimLemmas
pub mod Conditions
pub mod FirstLemmas
pub mod ItemCode
pub mod JpegMedia
pub mod ListLemmas
pub mod OneAnswer
pub mod OneBoxTree
pub mod OneMedia
pub mod OneReading
pub mod OpenedStore
pub mod ReachLemmas
pub mod SeenLemmas
pub mod TestLemmas
pub mod TheLaws
