pub mod RankLaws
pub mod SolidLaws
pub mod ObjLaws
