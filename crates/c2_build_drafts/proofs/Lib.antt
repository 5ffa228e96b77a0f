mod Placed
mod NewStores
