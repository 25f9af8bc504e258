pub mod Zones
pub mod Views
pub mod Services
pub mod Trips
pub mod ServiceDays
