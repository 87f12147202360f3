pub mod PlanPrograms
