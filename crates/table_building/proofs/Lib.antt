pub mod BuildingLaws
pub mod WholeTables
