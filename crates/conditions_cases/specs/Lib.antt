pub mod Emergencies
