-- ISO base media files as containers of a store (ISO/IEC 14496-12; C2PA Technical Specification 2.x, embedding in BMFF): boxes,
-- the store that one of them holds, paths to boxes, the fields of a BMFF hash, which bytes it covers, and what is written. Read in
-- this order.
pub mod Boxes
pub mod Store
pub mod Paths
pub mod Hash
pub mod Cover
pub mod Writing
