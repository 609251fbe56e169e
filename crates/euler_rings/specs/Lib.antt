pub mod RingsLaws
