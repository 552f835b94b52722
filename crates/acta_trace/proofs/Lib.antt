mod Counting
mod Noting
mod Taking
