mod BlankLaws
mod PutLaws
