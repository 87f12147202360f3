mod ComparedLaws
mod Examples
