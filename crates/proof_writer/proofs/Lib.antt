pub mod CountLaws
pub mod PlainNameLaws
pub mod ScopeLaws
pub mod TheoremLaws
pub mod ValueBytes
pub mod WritingLaws
