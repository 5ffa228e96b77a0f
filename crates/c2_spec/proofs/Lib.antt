mod AssertionRows
pub mod BmffNoFault
pub mod BmffOneList
pub mod BmffOneOutcome
pub mod BmffOneStore
pub mod BmffPassing
mod BmffRows
pub mod BmffShared
pub mod BmffSizes
pub mod BmffTests
pub mod BoxParts
pub mod BoxesOfManifests
pub mod CborEach
pub mod CborHeadLengths
mod CborRows
pub mod CborShared
pub mod CborViews
mod ClaimRows
pub mod ClaimVersions
pub mod Containers
mod CoverRows
pub mod Digests
pub mod DistinctLabels
pub mod GivenLabels
pub mod JpegLocated
mod JpegRows
pub mod JumbfBoxes
pub mod JumbfChildren
pub mod JumbfCode
pub mod JumbfHeads
pub mod JumbfNoFault
pub mod JumbfOneFault
pub mod JumbfOneTree
pub mod JumbfParts
pub mod JumbfRefusals
pub mod JumbfRows
pub mod Kept
pub mod LabelsOfManifests
pub mod OneMessage
pub mod Openings
mod PanelRows
mod Sign1Rows
pub mod StoreRefusals
mod StoreRows
pub mod TextKeys
pub mod TextPrefixes
mod UriRows
