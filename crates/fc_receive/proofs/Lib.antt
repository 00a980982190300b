mod Traffic
mod Flushed
mod Runs
mod Waits
mod Told
mod Fired
mod Beats
mod Reported
