pub mod Opening
pub mod Loading
pub mod Laws
pub mod Changes
pub mod BytesIn
pub mod inside
