pub mod LineLaws
pub mod ShardLaws
pub mod SoundLaws
