pub mod RngLaws
