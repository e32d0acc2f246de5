pub mod HubLaws
pub mod PairLaws
