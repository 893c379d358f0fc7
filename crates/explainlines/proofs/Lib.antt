mod Reading
mod LineForms
