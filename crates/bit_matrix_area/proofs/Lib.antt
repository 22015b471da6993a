mod AreaLaws
mod NineLaws
