mod Tracing
mod Taken
mod Made
mod Trailing
mod OneGraph
