pub mod Boots
