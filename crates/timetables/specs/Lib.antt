pub mod Timetables
