pub mod GeneralPlans
