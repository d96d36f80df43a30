pub mod Graphs
pub mod LastPart
pub mod Leading
pub mod LinksAt
pub mod Named
pub mod OutlinesMore
