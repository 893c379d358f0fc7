mod GoingOn
mod KeptStarts
mod KeptTriggers
