pub mod TimerEnds
