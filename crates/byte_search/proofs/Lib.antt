mod Examples
mod FirstPlace
