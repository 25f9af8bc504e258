pub mod OneMore
pub mod Places
pub mod Moving
pub mod Rising
pub mod Closing
pub mod Fresh
pub mod IntoPlace
