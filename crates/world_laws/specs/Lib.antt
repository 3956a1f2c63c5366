pub mod CallOrder
pub mod FewCredits
pub mod JointNodes
pub mod Laws
pub mod NeverRestarts
pub mod NodeFacts
pub mod OneCall
