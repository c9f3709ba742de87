mod Granted
mod Listed
mod Narrows
mod Over
mod Replied
mod Said
mod Taken
