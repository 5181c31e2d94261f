mod Marks
mod Walking
mod Strips
