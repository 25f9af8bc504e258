-- What `vehicle_peaks` says, for the crates above.
pub use Rattle.vehicle_peaks.specs.Rises
