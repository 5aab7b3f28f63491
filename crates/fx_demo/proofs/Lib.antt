mod Feeds
mod Lengths
mod GoodRows
mod Pages
mod Running
