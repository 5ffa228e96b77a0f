mod BoundLemmas
mod FieldLemmas
mod FirstBinding
mod Items
