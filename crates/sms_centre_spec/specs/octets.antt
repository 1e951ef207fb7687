pub mod OctetsAt
