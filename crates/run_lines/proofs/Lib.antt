pub mod HookNames
