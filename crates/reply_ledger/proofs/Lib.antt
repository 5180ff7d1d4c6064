pub mod Apart
pub mod Counting
pub mod Maps
pub mod OneLess
pub mod Queue
pub mod Taking
