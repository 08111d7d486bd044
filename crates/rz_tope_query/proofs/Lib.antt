mod Once
mod Naming
mod Opening
mod Asking
mod Deciding
