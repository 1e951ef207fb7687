pub mod PremiseLaws
