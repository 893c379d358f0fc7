mod Mending
