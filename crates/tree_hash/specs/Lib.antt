pub mod TreeHash
