pub mod PointsLeft
