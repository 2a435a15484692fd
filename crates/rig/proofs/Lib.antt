pub mod RigInvariant
pub mod PlanPlaces
pub mod Steps
