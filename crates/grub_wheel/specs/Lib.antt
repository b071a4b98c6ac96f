pub mod inside
pub mod Messages
pub mod TimerBag
