pub mod Fields
pub mod HeadForms
pub mod Requests
pub mod Replies
pub mod Laws
