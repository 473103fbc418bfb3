mod DepthLaws
mod MarkLaws
