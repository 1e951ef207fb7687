mod Archived
