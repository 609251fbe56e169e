pub mod CallLaws
pub mod PlanLaws
pub mod ExitLaws
