pub mod Laid
pub mod RoundTrip
